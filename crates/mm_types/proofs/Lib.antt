pub mod Distinct
pub mod PackedWords
pub mod Sorting
