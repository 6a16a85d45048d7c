-- The laws that proofs of `terminal` cite, a file a subject.
pub mod Receiving
pub mod Empty
