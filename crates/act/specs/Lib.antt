-- What contracts and proofs cite of `act`, a file a subject.
pub mod Acting
