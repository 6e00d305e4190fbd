-- what the clauses of the program say
pub mod Mode
pub mod Wave
pub mod Line
pub mod Phases
pub mod Lines
-- what laws say
pub mod Laws
-- what values hold for their proofs
pub mod held
