-- What contracts and proofs cite of `finder`, a file a subject.
pub mod Looks
pub mod Follows
