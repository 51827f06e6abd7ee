pub mod Entering
pub mod Goes
pub mod Whole
