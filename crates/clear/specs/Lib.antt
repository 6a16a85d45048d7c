-- What contracts and proofs cite of `clear`, a file a subject.
pub mod WithGap
pub mod Clear
