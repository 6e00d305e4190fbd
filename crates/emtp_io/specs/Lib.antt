-- what the clauses of the program say
pub mod Cabinet
pub mod Whole
pub mod Writes
pub mod Disk
-- what values hold for their proofs
pub mod held
