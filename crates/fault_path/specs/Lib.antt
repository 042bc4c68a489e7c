pub mod Passes
pub mod Faults
pub mod Locking
pub mod Holding
pub mod Notes
pub mod Internal
