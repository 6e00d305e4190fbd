pub mod GivenRows
pub mod Redoing
pub mod RedoneRows
mod Worked
pub mod Running
