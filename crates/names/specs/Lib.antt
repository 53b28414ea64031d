pub mod Marks
pub mod Index
