pub mod Equal
pub mod Positions
pub mod Entering
pub mod Numbers
pub mod Apart
pub mod Entries
pub mod Chains
pub mod Unique
