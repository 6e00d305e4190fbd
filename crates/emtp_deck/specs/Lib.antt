pub use Rattle.emtp_walk.specs.Answer
pub use Rattle.emtp_walk.specs.Laws
-- what the clauses of the program say
pub mod Made
pub mod Copies
pub mod Channels
pub mod Branches
pub mod Switches
pub mod Sources
pub mod Outputs
pub mod ControlFilling
pub mod Samples
pub mod Deck
-- what values hold for their proofs
pub mod held
