pub mod ScrollLaws
pub mod TextLaws
pub mod LineLaws
pub mod WriteLaws
pub mod KnownLaws
