-- What contracts and proofs cite of `deeds`, a file a subject.
pub mod Deeds
