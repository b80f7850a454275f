-- Laws that the proofs share.
pub mod AnswerLaw
pub mod CutLaw
pub mod WholeLaw
pub mod ClaimsLaw
