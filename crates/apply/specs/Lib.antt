-- What contracts and proofs cite of `apply`, a file a subject.
pub mod Applying
