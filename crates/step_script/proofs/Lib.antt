pub mod RowWords
pub mod LockSteps
pub mod GraceSteps
mod PassedOver
mod FirstLine
pub mod Scripts
pub mod NoRefusals
