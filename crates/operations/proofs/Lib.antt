pub mod Taking
pub mod Giving
pub mod Operating
