pub mod SealCases
pub mod SealedOff
