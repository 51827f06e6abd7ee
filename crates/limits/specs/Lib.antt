pub mod Limits
pub mod Sound
