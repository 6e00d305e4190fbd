-- what the clauses of the program say
pub mod Chain
pub mod Items
pub mod Rounding
pub mod Limit
pub mod Root
pub mod Decimal
-- what values hold for their proofs
pub mod held
