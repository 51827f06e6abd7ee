pub mod Output
pub mod Room
pub mod Stretches
pub mod Cases
