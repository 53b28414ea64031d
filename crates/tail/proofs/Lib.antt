pub mod Blanks
pub mod Yes
pub mod Unique
