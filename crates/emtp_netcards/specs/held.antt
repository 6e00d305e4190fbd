-- What values hold for their proofs, and what premises say. No clause of the program reaches it.
pub mod BranchCard
pub mod Fields
pub mod LineValues
pub mod PointCard
pub mod Reading
pub mod RunCards
pub mod SeriesValues
pub mod SourceCard
pub mod SwitchCard
