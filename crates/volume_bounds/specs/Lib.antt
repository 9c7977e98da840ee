pub mod Cells
pub mod Counts
pub mod Extents
pub mod Blocks
