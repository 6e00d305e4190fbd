-- what values hold for their proofs; no clause of the program reaches it
pub mod Measure
