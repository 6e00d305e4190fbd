-- what the clauses of the program say
pub mod Companion
pub mod Step
pub mod Lumps
-- what values hold for their proofs
pub mod held
