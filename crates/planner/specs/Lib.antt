pub mod Calls
pub mod Answers
pub mod Starred
pub mod Cases
