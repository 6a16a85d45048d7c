-- The laws that proofs of `edit` cite, a file a subject.
pub mod Drafts
pub mod Editing
pub mod Answered
