-- what the clauses of the program say
pub mod Block
pub mod Laws
pub mod System
-- what values hold for their proofs
pub mod held
