-- The laws that proofs of `feed` cite, a file a subject.
pub mod Feeding
pub mod Whole
pub mod Once
