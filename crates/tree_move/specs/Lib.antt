pub mod Parents
pub mod Moves
