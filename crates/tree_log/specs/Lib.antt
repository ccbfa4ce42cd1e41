pub mod Moves
pub mod Log
pub mod Merge
pub mod Steps
pub mod Open
