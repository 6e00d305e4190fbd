-- What values hold for their proofs, and what premises say. No clause of the program reaches it.
pub mod Cards
pub mod Fault
pub mod Field
pub mod Lines
pub mod Number
pub mod NumberField
pub mod Numeral
pub mod Rounding
pub mod Whole
