pub mod Called
pub mod Internal
