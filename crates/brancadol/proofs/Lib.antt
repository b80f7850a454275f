-- Laws that the proofs share.
pub mod RefusedLaw
pub mod ClaimsLaw
