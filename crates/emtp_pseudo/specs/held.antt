-- What values hold for their proofs, and what premises say. No clause of the program reaches it.
pub mod Held
pub mod Pseudos
pub mod Segment
pub mod Step
