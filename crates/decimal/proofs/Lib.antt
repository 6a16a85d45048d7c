-- The laws that proofs of `decimal` cite, a file a subject.
pub mod Digits
pub mod Runs
pub mod Table
pub mod Layouts
