-- What the inner functions promise: read this after `NodeAnswer`.
pub mod Writer
