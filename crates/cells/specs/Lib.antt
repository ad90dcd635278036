pub mod Cells
pub mod Rows
pub mod Sets
pub mod Segments
pub mod Runs
