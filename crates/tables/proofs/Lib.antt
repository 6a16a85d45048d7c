-- The laws that proofs of `tables` cite, a file a subject.
pub mod Absent
pub mod Seeks
pub mod Turns
