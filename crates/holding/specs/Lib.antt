pub mod Times
pub mod Holds
pub mod Misfits
pub mod Laws
pub mod Takes
