-- Theorems about the calls, a file a subject.
pub mod Shared
pub mod Delivered
