-- What the functions promise: read these after `Reading`.
pub mod Put
pub mod Places
pub mod Words
pub mod Number
pub mod Scan
