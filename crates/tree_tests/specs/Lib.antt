pub mod Leaves
pub mod Benches
pub mod Rows
pub mod Small
