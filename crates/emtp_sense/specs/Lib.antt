pub use Rattle.emtp_walk.specs.Answer
-- what the clauses of the program say
pub mod Names
pub mod Variables
pub mod Limits
pub mod ControlSense
-- what values hold for their proofs
pub mod held
