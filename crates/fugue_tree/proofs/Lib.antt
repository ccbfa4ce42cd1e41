pub mod RangeLaws
pub mod ChildLaws
pub mod RowLaws
pub mod GrowLaws
pub mod PlaceLaws
pub mod WalkLaws
pub mod OwnedLaws
pub mod TreesLaws
