pub mod Holes
pub mod Lowering
pub mod MmapTable
