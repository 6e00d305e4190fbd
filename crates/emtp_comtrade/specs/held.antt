-- What values hold for their proofs, and what premises say. No clause of the program reaches it.
pub mod Multiplier
pub mod Record
pub mod Stream
