-- What the inner functions promise.
pub mod Rows
