pub mod StepLaws
pub mod DisplayLaws
pub mod ByteLaws
pub mod RunLaws
