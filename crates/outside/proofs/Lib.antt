pub mod FileEntries
pub mod Untold
