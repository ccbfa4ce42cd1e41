pub mod Kept
pub mod Documents
pub mod References
pub mod Keys
pub mod Shown
pub mod Views
pub mod FaultText
pub mod Edits
