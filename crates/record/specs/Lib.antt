pub mod Numbers
pub mod Plain
pub mod Record
