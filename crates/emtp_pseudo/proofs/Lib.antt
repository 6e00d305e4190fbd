pub mod Segments
pub mod Holding
pub mod Chain
pub mod Odd
pub mod CurrentRanges
