-- What the inner functions and the walks over a table speak of.
pub mod Parts
pub mod Sort
pub mod Counts
