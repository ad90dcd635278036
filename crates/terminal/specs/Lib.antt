pub mod Answers
pub mod Start
pub mod Feed
pub mod Ask
pub mod Read
pub mod CursorRead
pub mod Row
