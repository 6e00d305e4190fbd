-- What values hold for their proofs, and what premises say. No clause of the program reaches it.
pub mod Accepted
pub mod Branches
pub mod ControlSensible
pub mod Copies
pub mod Filling
pub mod Made
pub mod Sensible
