pub mod Quantity
pub mod Cases
