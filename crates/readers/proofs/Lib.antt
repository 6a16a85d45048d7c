-- The laws that proofs of `readers` cite, a file a subject.
pub mod Texts
pub mod Ids
pub mod Commas
pub mod Integers
pub mod Packs
pub mod Hexes
pub mod Taking
pub mod Values
pub mod Lines
