-- what the clauses of the program say
pub mod History
-- what values hold for their proofs
pub mod held
