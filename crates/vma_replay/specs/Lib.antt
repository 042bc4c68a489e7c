pub mod ChildTexts
pub mod Statuses
pub mod Jobs
pub mod Summaries
pub mod Forks
pub mod Replaying
pub mod Retraced
pub mod Internal
