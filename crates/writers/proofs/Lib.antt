-- The laws that proofs of `writers` cite, a file a subject.
pub mod Over
pub mod Bytes
pub mod Texts
pub mod Runs
pub mod Counters
pub mod Plains
