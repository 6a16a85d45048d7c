-- The laws that proofs of `reads` cite, a file a subject.
pub mod Reaches
pub mod Gives
pub mod Asks
pub mod Once
