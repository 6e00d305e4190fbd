pub mod Scanning
pub mod Heights
pub mod Machines
pub mod Settling
pub mod Complete
pub mod Contexts
pub mod Sound
pub mod Prefixes
pub mod Levels
pub mod Texts
pub mod Places
pub mod NamePlaces
pub mod TreeValues
pub mod TextEnds
pub mod ValueRanges
pub mod Longest
mod Worked
