pub mod Names
pub mod Counted
pub mod Kept
pub mod Offers
pub mod Orders
pub mod Inside
