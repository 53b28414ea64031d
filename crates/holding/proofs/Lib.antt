pub mod Coded
pub mod Over
pub mod Filling
pub mod Returns
pub mod Unique
