pub mod Areas
pub mod Attributes
pub mod Functions
