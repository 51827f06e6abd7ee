pub mod Quotes
pub mod Answers
