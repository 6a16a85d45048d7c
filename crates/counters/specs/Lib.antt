-- What contracts and proofs cite of `counters`, a file a subject.
pub mod Counted
