pub mod Crossing
pub mod States
pub mod Settling
pub mod Opening
pub mod Playing
pub mod Ways
