pub mod Areas
pub mod Attributes
pub mod Changes
pub mod Laws
