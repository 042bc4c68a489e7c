pub mod Kinds
pub mod Laws
pub mod Printing
pub mod Reading
pub mod Tables
