-- Laws that the proofs share.
pub mod PrintedLaw
pub mod ClaimsLaw
