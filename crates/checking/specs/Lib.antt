pub mod Checking
pub mod Drafts
pub mod Running
