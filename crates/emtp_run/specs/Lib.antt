-- what the clauses of the program say
pub mod Words
pub mod Note
pub mod TrialDeck
pub mod Summary
pub mod Reading
pub mod Texts
pub mod Status
pub mod Outcome
pub mod Inputs
pub mod Command
-- what values hold for their proofs
pub mod held
