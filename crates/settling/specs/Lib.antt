-- What contracts and proofs cite of `settling`, a file a subject.
pub mod Verdicts
pub mod Settling
