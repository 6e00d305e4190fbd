pub mod Between
pub mod TermSteps
pub mod Filled
pub mod NodalRows
pub mod Touching
pub mod Phases
