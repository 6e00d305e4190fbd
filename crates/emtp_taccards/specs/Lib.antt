-- what the clauses of the program say
pub mod Inputs
pub mod BlockCard
pub mod PolynomialCard
pub mod TacsSourceCard
pub mod Group
pub mod FormulaCard
pub mod DeviceCard
pub mod ExtraCard
pub mod TacsOutputCard
-- what values hold for their proofs
pub mod held
