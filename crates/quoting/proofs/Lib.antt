pub mod Counts
pub mod Quotes
