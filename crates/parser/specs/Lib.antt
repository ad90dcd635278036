pub mod Params
pub mod Parser
pub mod Families
pub mod WholeParser
pub mod Phases
pub mod Places
