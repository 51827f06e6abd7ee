pub mod Filled
pub mod Ways
pub mod Cases
