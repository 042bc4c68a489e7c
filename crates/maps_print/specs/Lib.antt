pub mod Appends
pub mod Trimmed
