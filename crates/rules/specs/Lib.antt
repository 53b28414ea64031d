pub mod Cells
pub mod Kinds
pub mod Run
pub mod Well
