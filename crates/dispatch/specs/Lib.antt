pub mod Heard
pub mod WrapDue
pub mod Replies
pub mod Decide
pub mod Displays
pub mod Events
pub mod Touches
