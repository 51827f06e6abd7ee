pub mod Listing
pub mod Writing
pub mod Steps
