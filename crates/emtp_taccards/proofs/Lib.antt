pub mod Signals
pub mod LineEnds
pub mod Coefficients
pub mod CardRanges
