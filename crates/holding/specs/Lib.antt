pub mod Text
pub mod Kind
