-- what the clauses of the program say
pub mod End
pub mod Samples
pub mod Next
pub mod Channels
pub mod History
pub mod Machine
pub mod Laws
-- what laws say
pub mod Ranges
-- what values hold for their proofs
pub mod held
