pub mod Tables
pub mod Internal
