pub mod Checksum
pub mod Shown
