pub mod DisplayLoop
pub mod TurnLaws
pub mod FeedLoop
pub mod OnceLaws
