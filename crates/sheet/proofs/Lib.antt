-- The laws that proofs of `sheet` cite, a file a subject.
pub mod Rows
pub mod Sheets
pub mod Saved
