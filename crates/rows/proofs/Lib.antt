-- The theorems of `rows` that rest on other ones, a file a subject.
pub mod Follows
pub mod Balanced
pub mod Room
