pub mod Tabs
pub mod TabSearch
pub mod Charsets
pub mod Cursor
pub mod ReplyBytes
