-- The laws that proofs of `message` cite, a file a subject.
pub mod Steps
pub mod Trails
pub mod Deeds
pub mod Edits
pub mod Messages
pub mod Places
pub mod Settled
pub mod Padded
