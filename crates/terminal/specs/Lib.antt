-- What contracts and proofs cite of `terminal`, a file a subject.
pub mod Promises
