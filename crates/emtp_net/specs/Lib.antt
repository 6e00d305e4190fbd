-- what the clauses of the program say
pub mod System
pub mod Part
pub mod Residual
pub mod Redone
pub mod Step
-- what values hold for their proofs
pub mod held
