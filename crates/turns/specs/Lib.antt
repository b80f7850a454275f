pub mod Claims
pub mod Turn
