pub mod Behind
pub mod Children
