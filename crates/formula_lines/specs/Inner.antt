-- What the inner functions promise: read these after `FormulaAnswer`.
pub mod Kinds
pub mod Writes
pub mod Form
pub mod Reader
