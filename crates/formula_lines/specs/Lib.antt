pub mod Spelling
pub mod FormulaAnswer
pub mod Claims
pub mod Inner
