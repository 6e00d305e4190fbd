-- what is told of a run
pub mod SampleLines
pub mod BranchWarnings
pub mod Fronts
pub mod RangeLine
pub mod JudgedLines
pub mod Telling
-- and what the words ask for, and how a call ends that tells it
pub mod Asking
pub mod Assessing
