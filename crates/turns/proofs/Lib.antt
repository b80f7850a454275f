-- Laws that the proofs share.
pub mod ClaimsLaw
pub mod TurnLaw
