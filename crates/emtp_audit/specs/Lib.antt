-- what the clauses of the program say
pub mod Audit
pub mod Cfg
pub mod Dat
pub mod Rules
pub mod Numbers
pub mod Note
-- what values hold for their proofs
pub mod held
