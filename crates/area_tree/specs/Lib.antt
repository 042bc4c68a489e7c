pub mod Tallies
pub mod SpanTrees
pub mod Rows
pub mod SpanKept
pub mod AreaTrees
pub mod Kept
pub mod Internal
