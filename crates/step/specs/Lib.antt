pub mod Answer
pub mod Stepping
