-- What values hold for their proofs, and what premises say. No clause of the program reaches it.
pub mod BlockCard
pub mod DeviceCard
pub mod ExtraCard
pub mod FormulaCard
pub mod PolynomialCard
pub mod TacsSourceCard
