-- What contracts and proofs cite of `feed`, a file a subject.
pub mod Feeding
pub mod Whole
