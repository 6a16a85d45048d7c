-- What contracts and proofs cite of `values`, a file a subject.
pub mod Values
