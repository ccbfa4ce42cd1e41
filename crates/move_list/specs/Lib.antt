pub mod Codes
pub mod Items
pub mod Kept
pub mod Lists
