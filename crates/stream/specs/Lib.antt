-- What contracts and proofs cite of `stream`, a file a subject.
pub mod Ends
pub mod Pieces
pub mod Steps
