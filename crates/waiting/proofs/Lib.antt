-- The laws that proofs of `waiting` cite, a file a subject.
pub mod Copies
pub mod Written
pub mod Ops
pub mod Holds
pub mod Told
