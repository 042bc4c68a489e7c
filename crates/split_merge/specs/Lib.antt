pub mod Plans
pub mod Calls
pub mod Finding
pub mod PageNumbers
pub mod Sorted
pub mod Internal
