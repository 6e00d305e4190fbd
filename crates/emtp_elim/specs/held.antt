-- What values hold for their proofs, and what premises say. No clause of the program reaches it.
pub mod Clearing
pub mod Extent
pub mod Fault
pub mod Finished
pub mod Matrix
pub mod Outcome
pub mod Row
pub mod RowWords
pub mod Rows
pub mod Stored
pub mod Substitution
pub mod WorkRow
pub mod Written
