-- Laws that the proofs share.
pub mod BoundsLaw
pub mod ProgressLaw
pub mod StreamLaw
pub mod ClaimsLaw
