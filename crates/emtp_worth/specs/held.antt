-- What premises say. No clause of the program reaches it.
pub mod Run
