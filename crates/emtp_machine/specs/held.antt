-- What values hold for their proofs, and what premises say. No clause of the program reaches it.
pub mod Controlled
pub mod History
pub mod Laws
pub mod Machine
pub mod Samples
