-- what the clauses of the program say
pub mod Nodal
-- what values hold for their proofs
pub mod held
