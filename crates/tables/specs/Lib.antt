-- What contracts and proofs cite of `tables`, a file a subject.
pub mod Words
pub mod Either
pub mod Heads
pub mod Seek
pub mod Finds
pub mod Wants
pub mod Standing
pub mod Holding
pub mod Parts
pub mod Stands
pub mod Changed
pub mod Rewritten
pub mod Placed
pub mod Values
pub mod Saying
pub mod Once
