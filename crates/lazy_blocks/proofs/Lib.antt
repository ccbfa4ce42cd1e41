pub mod BlockLaws
pub mod HandingLaws
