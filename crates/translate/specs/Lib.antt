pub mod Emitted
pub mod Claim
pub mod Worked
pub mod Answer
pub mod Claims
pub mod Inner
