pub mod Entity
pub mod Making
pub mod Judging
pub mod Stepping
