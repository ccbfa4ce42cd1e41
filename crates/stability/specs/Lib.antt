pub mod Rows
pub mod Horizons
pub mod Laws
