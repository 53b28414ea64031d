pub mod Copying
pub mod Pairs
pub mod Unique
