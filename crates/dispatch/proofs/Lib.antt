pub mod ActionLaws
pub mod HeardLaws
pub mod EventLaws
pub mod PlainByte
pub mod TouchLaws
pub mod WrapLaws
