pub mod Nodes
pub mod Phases
pub mod Switches
pub mod Branches
pub mod Mirror
pub mod Runs
pub mod Control
pub mod Causality
