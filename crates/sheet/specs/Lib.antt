-- What contracts and proofs cite of `sheet`, a file a subject.
pub mod Texts
pub mod Saving
