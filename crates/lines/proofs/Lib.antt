-- The laws that proofs of `lines` cite, a file a subject.
pub mod Texts
pub mod Words
pub mod Spots
