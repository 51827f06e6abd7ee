pub mod Overlaid
pub mod Adding
pub mod Scanning
