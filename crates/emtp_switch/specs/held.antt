-- What values hold for their proofs, and what premises say. No clause of the program reaches it.
pub mod Currents
pub mod Grouping
pub mod Groups
pub mod Plan
pub mod States
pub mod Switching
pub mod Tallies
pub mod Tree
