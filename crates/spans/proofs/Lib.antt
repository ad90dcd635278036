pub mod SpannedLaws
pub mod ByteLaws
pub mod CharacterLaws
pub mod ActionLaws
pub mod LineLaws
pub mod TextLaws
pub mod SequenceLaws
