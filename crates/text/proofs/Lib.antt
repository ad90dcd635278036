pub mod Examples
pub mod Trimming
pub mod Encoding
pub mod TextLaws
pub mod LineCount
pub mod SignLaws
