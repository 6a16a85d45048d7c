-- What contracts and proofs cite of `lines`, a file a subject.
pub mod Rows
pub mod Spots
