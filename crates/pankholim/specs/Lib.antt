pub mod Leaves
pub mod Version
