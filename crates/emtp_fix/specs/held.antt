-- What values hold for their proofs, and what premises say. No clause of the program reaches it.
pub mod Decimal
pub mod Ratio
pub mod Rounding
