-- What values hold for their proofs, and what premises say. No clause of the program reaches it.
pub mod Companion
pub mod Held
pub mod Lumps
pub mod Step
