pub mod Again
pub mod Owned
pub mod Planned
pub mod Trailing
pub mod Buying
