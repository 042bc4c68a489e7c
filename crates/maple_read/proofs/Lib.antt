pub mod Items
pub mod Places
pub mod Pairs
pub mod Descent
pub mod Reading
pub mod Loaded
