-- what the clauses of the program say
pub mod Device
pub mod Devices
pub mod Laws
-- what values hold for their proofs
pub mod held
