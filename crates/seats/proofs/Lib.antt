-- The laws that proofs of `seats` cite, a file a subject.
pub mod Seating
