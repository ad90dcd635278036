pub mod ByteLaws
pub mod EmptiedLaws
pub mod PlainLaws
pub mod RecordLaws
