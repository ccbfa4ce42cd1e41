pub mod StageLaws
pub mod StepLaws
pub mod MeaningLaws
pub mod StandLaws
pub mod BaseLaws
pub mod LedgerMeaning
pub mod StayLaws
pub mod MeantLaws
