-- what the clauses of the program say
pub mod Good
pub mod Redone
-- what laws say
pub mod Runs
-- what values hold for their proofs
pub mod held
