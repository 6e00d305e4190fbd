-- what the clauses of the program say
pub mod Characteristic
pub mod Found
pub mod Judged
pub mod Nearest
-- what values hold for their proofs
pub mod held
