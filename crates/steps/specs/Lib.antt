pub mod Steps
pub mod OneDisplay
pub mod Whole
pub mod Ready
