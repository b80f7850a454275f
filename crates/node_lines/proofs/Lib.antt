-- Laws that the proofs share.
pub mod WriterLaw
pub mod NodeLaw
pub mod ClaimsLaw
