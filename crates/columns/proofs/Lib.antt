pub mod Fields
pub mod Right
