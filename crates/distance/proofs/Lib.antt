pub mod Turns
pub mod Between
