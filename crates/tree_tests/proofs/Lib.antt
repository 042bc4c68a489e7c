pub mod Leaves
pub mod Seated
pub mod Rows
pub mod Small
