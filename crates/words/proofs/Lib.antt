-- The laws that proofs of `words` cite, a file a subject.
pub mod Over
pub mod Moves
pub mod Rows
pub mod Flat
pub mod Tables
pub mod Padded
pub mod Gap
