pub mod Follow
pub mod Turning
pub mod Whole
