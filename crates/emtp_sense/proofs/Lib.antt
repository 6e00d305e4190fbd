pub mod Naming
pub mod Knowing
pub mod Numbering
pub mod CardNames
pub mod WithinLimits
pub mod ControlJudging
