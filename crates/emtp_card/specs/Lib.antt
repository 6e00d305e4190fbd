-- what the clauses of the program say
pub mod Reason
pub mod Lines
pub mod Cards
pub mod Field
pub mod Decimal
pub mod Numeral
pub mod Number
pub mod NumberField
pub mod Whole
pub mod Name
pub mod Fault
-- what laws say
pub mod Spelling
-- what values hold for their proofs
pub mod held
