pub mod Edits
pub mod Writes
