mod Filling
mod OneEntity
pub mod Worded
mod Roomed
pub mod Unique
