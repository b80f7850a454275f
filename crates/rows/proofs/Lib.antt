pub mod PushLaw
pub mod BitOfLaw
pub mod RowLaw
pub mod SignalLaw
pub mod NextLaw
pub mod CarryLaw
pub mod UntilLaw
pub mod TableLaw
