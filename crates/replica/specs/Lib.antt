pub mod FaultText
pub mod Empty
pub mod Heads
pub mod Fields
pub mod Headers
pub mod Counts
pub mod Scanning
pub mod Parts
