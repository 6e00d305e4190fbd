-- What values hold for their proofs, and what premises say. No clause of the program reaches it.
pub mod Admittances
pub mod Frequency
pub mod Least
pub mod Numbers
pub mod Ports
pub mod Probes
