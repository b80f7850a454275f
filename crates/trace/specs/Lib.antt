pub mod Limits
pub mod Refusal
pub mod Answer
pub mod Verdict
pub mod Claims
