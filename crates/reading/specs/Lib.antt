pub mod Reading
pub mod WellMade
pub mod Rounds
