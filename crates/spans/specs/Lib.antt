pub mod Spans
pub mod Characters
pub mod Direct
pub mod Parts
