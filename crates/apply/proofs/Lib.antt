-- The laws that proofs of `apply` cite, a file a subject.
pub mod Carrying
pub mod Determined
