pub mod Serving
pub mod Sizing
pub mod Isolation
pub mod Fed
