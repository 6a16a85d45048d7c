-- What contracts and proofs cite of `seats`, a file a subject.
pub mod Stops
pub mod Seats
