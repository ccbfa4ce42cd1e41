pub mod LogLaws
pub mod SortLaws
pub mod StepLaws
pub mod OpenLaws
