pub mod Spelling
pub mod TraceAnswer
pub mod Claims
pub mod Inner
