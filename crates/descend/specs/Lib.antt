-- What contracts and proofs cite of `descend`, a file a subject.
pub mod Reach
pub mod Doing
pub mod Going
