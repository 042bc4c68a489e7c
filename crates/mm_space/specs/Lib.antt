pub mod Names
pub mod Spaces
pub mod Opening
pub mod Closing
