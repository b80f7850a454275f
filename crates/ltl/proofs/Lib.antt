pub mod AcceptedLaw
pub mod ClaimsLaw
pub mod TreeLaw
