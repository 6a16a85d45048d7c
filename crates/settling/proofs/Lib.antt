-- The laws that proofs of `settling` cite, a file a subject.
pub mod Verdicts
pub mod Picking
pub mod Looking
pub mod Sweeping
pub mod Rounds
