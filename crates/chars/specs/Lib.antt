pub mod Limits
pub mod Choice
pub mod Character
pub mod Stream
pub mod Rfc3629
pub mod Refusal
