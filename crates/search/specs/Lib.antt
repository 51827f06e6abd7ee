pub mod Search
pub mod Answers
pub mod Values
pub mod Calls
pub mod Limit
pub mod Sound
pub mod Cases
