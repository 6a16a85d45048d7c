-- The laws that proofs of `judging` cite, a file a subject.
pub mod Words
pub mod Rooms
pub mod Tops
pub mod Verdicts
pub mod Judged
