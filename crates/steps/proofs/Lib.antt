-- The laws that proofs of `steps` cite, a file a subject.
pub mod Flags
pub mod Opened
pub mod Marked
