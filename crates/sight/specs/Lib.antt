pub mod Row
pub mod Arrays
pub mod Stacks
