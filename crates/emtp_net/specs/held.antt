-- What values hold for their proofs, and what premises say. No clause of the program reaches it.
pub mod Branches
pub mod Fault
pub mod Holding
pub mod Judging
pub mod Moving
pub mod Network
pub mod Part
pub mod Redone
pub mod Rights
pub mod Stages
pub mod Sums
pub mod System
