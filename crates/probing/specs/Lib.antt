pub mod Calls
pub mod Answers
pub mod Searches
pub mod Cases
pub mod RoundCases
