-- What values hold for their proofs, and what premises say. No clause of the program reaches it.
pub mod Held
pub mod Lines
pub mod Mode
pub mod PhaseEnd
pub mod Phases
pub mod Waves
