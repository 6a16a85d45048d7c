-- What contracts and proofs cite of `listings`, a file a subject.
pub mod Texts
pub mod Lists
