pub mod WalkLaw
pub mod StoredLaw
pub mod ArmLaw
pub mod TranslatesLaw
pub mod WorkedLaw
pub mod EmittedLaw
pub mod DeliversLaw
pub mod ClaimsLaw
