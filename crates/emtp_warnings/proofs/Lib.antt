pub mod Adding
pub mod Agreeing
pub mod ControlCards
pub mod ExtraCards
mod ControlSources
pub mod Growing
pub mod NetworkCards
pub mod OutputCards
pub mod PointCards
pub mod PolynomialCards
mod Drifting
mod Pieces
mod Recording
mod Worked
