pub mod Appending
pub mod FilesLemmas
pub mod Making
pub mod Pieces
