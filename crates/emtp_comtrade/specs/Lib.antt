-- what the clauses of the program say
pub mod Record
pub mod Multiplier
-- what values hold for their proofs
pub mod held
