pub mod Bounds
pub mod Chain
pub mod Holding
pub mod CurrentRanges
pub mod Reached
