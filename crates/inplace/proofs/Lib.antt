pub mod AsciiLaws
pub mod PlaceLaws
pub mod ParserLaws
