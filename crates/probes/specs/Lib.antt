pub mod Output
pub mod Pokes
pub mod Views
