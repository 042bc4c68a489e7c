pub mod Stored
pub mod Plain
pub mod Kept
pub mod Internal
