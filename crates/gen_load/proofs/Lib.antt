pub mod Written
pub mod KindTexts
pub mod LoadOperations
pub mod Readings
