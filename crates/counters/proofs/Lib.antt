-- The laws that proofs of `counters` cite, a file a subject.
pub mod Entries
