-- Laws that the proofs share.
pub mod LimitsLaw
pub mod PlaceLaw
pub mod ReadingLaw
pub mod NumberLaw
pub mod ScanLaw
pub mod WordLaw
pub mod WriterLaw
pub mod ClaimsLaw
pub mod CopyLaw
mod DecimalLaw
