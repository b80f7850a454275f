-- Lines of bytes: `Spelling` how numbers and brackets are spelled, `Reading` what a line is, for any way of spelling.
pub mod Text
pub mod Spelling
pub mod Limits
pub mod Reading
pub mod Claims
pub mod Inner
