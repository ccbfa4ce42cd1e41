pub mod Inside
pub mod Replicas
pub mod Making
pub mod Makings
pub mod Reports
pub mod Ledgers
pub mod Receiving
pub mod Work
