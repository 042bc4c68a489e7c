pub mod Cutting
pub mod MmapCases
pub mod TouchCases
