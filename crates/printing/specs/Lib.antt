pub mod Printed
pub mod Limits
pub mod Claims
pub mod Inner
