-- The laws that proofs of `deeds` cite, a file a subject.
pub mod Cases
