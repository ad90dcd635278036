pub mod ListLaws
pub mod TestLaws
pub mod Choice
pub mod Cases
pub mod WriteLaws
pub mod DecimalLaws
pub mod SpanLaws
