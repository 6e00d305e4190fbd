-- what the clauses of the program say
pub mod Matrix
pub mod Elimination
pub mod Fault
pub mod Outcome
-- what values hold for their proofs
pub mod held
