pub mod Printing
pub mod Controls
pub mod Escapes
