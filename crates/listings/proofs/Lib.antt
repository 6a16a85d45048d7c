-- The laws that proofs of `listings` cite, a file a subject.
pub mod Answered
pub mod Tests
pub mod Mapped
pub mod Elements
pub mod Valued
pub mod Places
