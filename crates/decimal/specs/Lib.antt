-- What contracts and proofs cite of `decimal`, a file a subject.
pub mod Take
pub mod Powers
pub mod Numbers
