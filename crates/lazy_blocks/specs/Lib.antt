pub mod Deciding
pub mod Spelled
pub mod Blocks
pub mod Handing
