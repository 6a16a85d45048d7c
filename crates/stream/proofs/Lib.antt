-- The laws that proofs of `stream` cite, a file a subject.
pub mod Messages
pub mod Compare
pub mod Ending
pub mod Growing
pub mod Pieces
pub mod Runs
pub mod Moving
