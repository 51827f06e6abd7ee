pub mod Runs
pub mod Outcome
pub mod Asked
