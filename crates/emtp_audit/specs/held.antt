-- What values hold for their proofs, and what premises say. No clause of the program reaches it.
pub mod Cfg
pub mod Check
pub mod Dat
pub mod Pieces
pub mod Walk
