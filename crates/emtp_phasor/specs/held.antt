-- What values hold for their proofs, and what premises say. No clause of the program reaches it.
pub mod Ending
pub mod HeldBranches
pub mod HeldGroups
pub mod HeldLines
pub mod HeldSources
pub mod HeldSystem
pub mod Opening
pub mod Probed
pub mod Scanning
pub mod Solving
pub mod Steady
pub mod SteadyNetwork
pub mod Volts
