-- what the clauses of the program say
pub mod Segment
pub mod Step
pub mod Moment
pub mod Pseudos
-- what laws say
pub mod Laws
-- what values hold for their proofs
pub mod held
