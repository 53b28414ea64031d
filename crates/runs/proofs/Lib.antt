pub mod Bytewise
pub mod Flags
pub mod Bytes
pub mod Blanks
pub mod Unique
