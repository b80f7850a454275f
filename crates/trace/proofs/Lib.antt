pub mod JudgesLaw
pub mod ClaimsLaw
pub mod ToldLaw
pub mod ReasonLaw
