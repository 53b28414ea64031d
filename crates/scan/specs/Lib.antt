pub mod Data
pub mod Found
pub mod Opens
pub mod Told
