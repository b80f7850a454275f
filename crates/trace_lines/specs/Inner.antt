-- What the inner functions promise: read this after `TraceAnswer`.
pub mod LettersReader
