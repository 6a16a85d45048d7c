-- What contracts and proofs cite of `merge_run`, a file a subject.
pub mod Run
pub mod Promises
