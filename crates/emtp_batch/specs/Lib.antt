-- what the clauses of the program say
pub mod Items
pub mod Row
pub mod Table
pub mod Altered
pub mod Report
pub mod Summary
-- what laws say
pub mod Laws
-- what values hold for their proofs
pub mod held
