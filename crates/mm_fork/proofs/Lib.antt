pub mod Shifting
pub mod Places
pub mod Spaces
pub mod ChildRuns
pub mod Alike
pub mod LogsBehind
pub mod Forked
