pub mod Gaps
pub mod Internal
