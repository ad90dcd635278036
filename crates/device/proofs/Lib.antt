pub mod TabLaws
pub mod TabSearchLaws
pub mod CursorLaws
pub mod SendLaws
