-- The laws that proofs of `forecast` cite, a file a subject.
pub mod Here
pub mod Goes
pub mod Blocks
pub mod Looks
pub mod Weights
pub mod Ways
pub mod Steps
