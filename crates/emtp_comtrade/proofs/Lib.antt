pub mod Digits
pub mod Lines
pub mod ChannelMultipliers
pub mod Places
pub mod GreatestMagnitudes
pub mod HeldValues
pub mod LeastMultiplier
pub mod Streams
