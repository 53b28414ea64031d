pub mod Places
pub mod Stepping
pub mod Unique
