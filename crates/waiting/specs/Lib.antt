-- What contracts and proofs cite of `waiting`, a file a subject.
pub mod Rows
pub mod Waits
