pub mod Causes
pub mod Lines
pub mod Words
pub mod Numbers
pub mod BadLines
pub mod Reading
pub mod Laws
