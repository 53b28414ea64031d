mod Alone
mod Leading
pub mod Unique
