pub mod Asking
pub mod Sessions
pub mod Items
pub mod Statuses
pub mod Conversing
pub mod Internal
