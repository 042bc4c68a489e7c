pub mod Naming
pub mod Sharing
pub mod Hearing
pub mod Alone
pub mod Internal
