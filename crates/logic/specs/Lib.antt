-- The meanings, in reading order. `Letter`, `Trace` and `Word` are what both speak of; `Formula` and `Meaning` are PSL, `Tree` and `LtlMeaning` are
-- LTL; `Translation` is the translation as a tree. `Written` is a supplier's formula with short forms, `ShortForms` what these say. `KnownVerdicts`
-- and `BorderFacts` are sentences to compare with; `Claims` says what is proved.
pub mod Letter
pub mod Trace
pub mod Word
pub mod Formula
pub mod Meaning
pub mod KnownVerdicts
pub mod Empty
pub mod Order
pub mod Tree
pub mod LtlMeaning
pub mod BorderFacts
pub mod Translation
pub mod Written
pub mod ShortForms
pub mod Claims
