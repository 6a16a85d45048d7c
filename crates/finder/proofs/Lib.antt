-- The laws that proofs of `finder` cite, a file a subject.
pub mod Looks
pub mod Follows
