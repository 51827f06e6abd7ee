pub mod Distance
pub mod Trail
pub mod Meaning
pub mod Rule
pub mod Plants
pub mod Cases
