-- What contracts and proofs cite of `script`, a file a subject.
pub mod Calls
pub mod Once
