-- The laws that proofs of `merge_run` cite, a file a subject.
pub mod Reading
pub mod Running
pub mod Printing
