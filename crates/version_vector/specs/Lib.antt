pub mod Counts
pub mod Inline
