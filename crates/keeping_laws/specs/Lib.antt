pub mod Forms
pub mod Keeping
pub mod Writing
pub mod Showing
