pub mod Value
pub mod Coded
pub mod Answer
pub mod Refused
pub mod Claims
