pub mod PhaseLaws
pub mod ParamLaws
pub mod RuleLaws
pub mod SequenceLaws
pub mod PlaceLaws
