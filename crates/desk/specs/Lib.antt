pub mod Console
pub mod Desk
pub mod Inner
pub mod Cases
