-- What values hold for their proofs, and what premises say. No clause of the program reaches it.
pub mod Buffer
pub mod Cabinet
pub mod Calls
pub mod Files
pub mod Memory
pub mod Whole
pub mod Writes
