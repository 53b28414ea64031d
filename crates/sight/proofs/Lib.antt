pub mod Sight
pub mod Unique
