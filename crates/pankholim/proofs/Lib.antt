pub mod TextLaws
pub mod CallLaws
