pub mod Answers
pub mod Results
pub mod Checks
pub mod Tables
