-- what the clauses of the program say
pub mod Answer
pub mod LineRead
pub mod Coefficients
pub mod ControlSteps
pub mod Walk
pub mod Readings
-- what laws say
pub mod Laws
-- what values hold for their proofs
pub mod held
