-- What contracts and proofs cite of `reads`, a file a subject.
pub mod Asks
pub mod Gives
