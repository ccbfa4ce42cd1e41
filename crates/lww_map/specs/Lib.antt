pub mod Codes
pub mod Keys
pub mod Prefixes
pub mod Writes
