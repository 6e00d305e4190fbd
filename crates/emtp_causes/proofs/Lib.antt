pub mod Chains
pub mod SectionSteps
