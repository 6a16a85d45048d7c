-- The laws that proofs of `descend` cite, a file a subject.
pub mod Leading
pub mod Entering
pub mod Descending
