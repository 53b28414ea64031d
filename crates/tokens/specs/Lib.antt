pub mod Sorts
pub mod Tokens
pub mod Runs
pub mod Step
pub mod Tail
pub mod Told
