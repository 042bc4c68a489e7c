pub mod Counting
pub mod Parting
pub mod Keeping
