pub mod Table
pub mod Entered
