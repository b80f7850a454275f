-- Laws that the proofs share.
pub mod FormLaw
pub mod FormulaLaw
pub mod ClosingLaw
pub mod KeywordLaw
pub mod WritesLaw
pub mod ShortLaw
pub mod ReaderLaw
pub mod LineLaw
pub mod LimitsLaw
pub mod ClaimsLaw
