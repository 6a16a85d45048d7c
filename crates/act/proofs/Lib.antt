-- The laws that proofs of `act` cite, a file a subject.
pub mod Gaps
pub mod Counted
pub mod Giving
pub mod Inserting
