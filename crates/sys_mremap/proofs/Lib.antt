pub mod Finding
pub mod Nearness
pub mod Cases
pub mod Made
pub mod Outcomes
