pub mod Spelling
pub mod NodeAnswer
pub mod Claims
pub mod Inner
