-- What contracts and proofs cite of `edit`, a file a subject.
pub mod Promises
