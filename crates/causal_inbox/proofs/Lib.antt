pub mod NameLaws
pub mod PoolLaws
pub mod ReadyLaws
pub mod KeptLaws
pub mod OfferLaws
pub mod CountLaws
pub mod OrderLaws
