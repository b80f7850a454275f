pub mod Table
pub mod Check
pub mod Kind
pub mod Answer
pub mod Accepted
pub mod Claims
