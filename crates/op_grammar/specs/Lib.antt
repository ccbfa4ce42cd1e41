pub mod Values
pub mod Operations
pub mod Rules
pub mod Changes
pub mod Parts
pub mod Sources
