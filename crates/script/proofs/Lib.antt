-- The laws that proofs of `script` cite, a file a subject.
pub mod Finding
