pub mod Cases
pub mod Planning
