pub mod FeedLaws
pub mod PageLaws
