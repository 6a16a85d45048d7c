-- What contracts and proofs cite of `message`, a file a subject.
pub mod Means
pub mod Steps
pub mod Reads
pub mod Promises
