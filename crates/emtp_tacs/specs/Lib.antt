-- what the clauses of the program say
pub mod Part
pub mod Step
pub mod Redone
-- what values hold for their proofs
pub mod held
