-- what is told of the lines of a case
pub mod Fields
pub mod Lines
pub mod Measure
pub mod Measures
pub mod Refused
-- what values hold for their proofs
pub mod held
