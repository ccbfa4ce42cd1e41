pub mod RowLaws
pub mod HeldLaws
pub mod StableLaws
pub mod HorizonLaws
