pub mod Computes
pub mod Modes
pub mod Listing
pub mod OpenGroups
pub mod Cutting
pub mod Shortages
pub mod Fitting
mod Rows
pub mod Rules
pub mod Entering
pub mod Unique
