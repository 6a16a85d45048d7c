-- What contracts and proofs cite of `rows`, a file a subject.
pub mod Blocks
pub mod Spans
pub mod Listing
pub mod Seeking
pub mod AtKeys
pub mod AtElements
pub mod Locate
pub mod Counting
pub mod Balanced
pub mod Room
pub mod Within
pub mod Sought
