-- what a series branch does, over one step and over many
pub mod Series
pub mod Course
pub mod Energy
-- a reactor of one point
pub mod Coil
-- the records of a run
pub mod Runs
