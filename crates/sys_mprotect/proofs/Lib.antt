pub mod Limits
pub mod Calls
