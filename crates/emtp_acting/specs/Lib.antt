-- what the clauses of the program say
pub mod Fictitious
pub mod Clean
pub mod Capacitance
-- what values hold for their proofs
pub mod held
