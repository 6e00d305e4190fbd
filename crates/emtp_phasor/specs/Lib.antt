-- what the clauses of the program say
pub mod Doubled
pub mod Volts
pub mod Steady
pub mod Scanning
-- what laws say
pub mod Balance
pub mod ComplexEntries
pub mod SingleBranch
-- what values hold for their proofs
pub mod held
