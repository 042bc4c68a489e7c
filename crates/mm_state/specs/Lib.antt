pub mod States
pub mod Shelves
pub mod Kept
pub mod Internal
