-- What contracts and proofs cite of `keeping`, a file a subject.
pub mod Storing
pub mod Keeping
pub mod Steady
pub mod Once
