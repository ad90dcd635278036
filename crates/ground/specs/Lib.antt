pub mod Tests
pub mod Folds
pub mod Writes
pub mod Decimals
pub mod Spans
