-- What contracts and proofs cite of `words`, a file a subject.
pub mod Words
pub mod Rows
pub mod Gap
