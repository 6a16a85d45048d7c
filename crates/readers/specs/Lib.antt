-- What contracts and proofs cite of `readers`, a file a subject.
pub mod Words
pub mod Order
pub mod Reads
pub mod Hex
pub mod Given
pub mod Lines
