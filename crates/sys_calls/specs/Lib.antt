pub mod Touches
