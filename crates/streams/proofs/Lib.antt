pub mod Growing
pub mod Filled
