mod Children
mod ForkWords
mod Forked
pub mod Fronts
pub mod Inputs
mod InputsRead
mod Marks
mod MarkLines
pub mod TextLines
pub mod Plain
pub mod ItemLines
pub mod Compared
pub mod ItemTexts
pub mod AnsweredTexts
pub mod Endings
pub mod Judged
pub mod Walked
pub mod ReadNumbers
pub mod SpaceSteps
pub mod ToldRuns
pub mod Stopped
pub mod GivenTexts
pub mod Pieces
pub mod Outputs
pub mod Answering
pub mod Telling
pub mod InTurn
pub mod Fitting
