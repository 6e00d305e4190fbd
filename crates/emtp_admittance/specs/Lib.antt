-- what the clauses of the program say
pub mod Admittances
pub mod Impedance
pub mod Refusals
pub mod Probes
-- what laws say
pub mod EqualReactances
pub mod Inverses
-- what values hold for their proofs
pub mod held
