-- The laws that proofs of `values` cite, a file a subject.
pub mod Values
pub mod Dropped
pub mod Added
pub mod Set
