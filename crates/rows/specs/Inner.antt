-- All that is said of rows: none of it is needed to believe a verdict.
pub mod Rows
