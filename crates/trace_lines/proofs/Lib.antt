-- Laws that the proofs share.
pub mod LettersLaw
pub mod TraceLaw
pub mod LimitsLaw
pub mod ClaimsLaw
