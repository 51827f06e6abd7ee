pub mod Filled
pub mod Tried
pub mod Ways
pub mod Along
