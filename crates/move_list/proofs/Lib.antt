pub mod ItemLaws
pub mod PlaceLaws
pub mod ShownLaws
pub mod TableLaws
pub mod NodeLaws
pub mod RowLaws
