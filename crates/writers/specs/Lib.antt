-- What contracts and proofs cite of `writers`, a file a subject.
pub mod Wrote
pub mod Sized
pub mod Texts
pub mod Words
pub mod Held
