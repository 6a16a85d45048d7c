-- What contracts and proofs cite of `judging`, a file a subject.
pub mod Judging
pub mod Errors
