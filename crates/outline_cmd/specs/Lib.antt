pub mod Tasks
pub mod Made
pub mod Stages
