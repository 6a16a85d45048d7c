-- What contracts and proofs cite of `forecast`, a file a subject.
pub mod Goes
pub mod Weighs
