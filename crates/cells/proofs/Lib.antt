pub mod Acting
pub mod Going
pub mod Keeping
pub mod Refusals
pub mod Unique
