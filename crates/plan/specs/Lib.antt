pub mod Plan
pub mod Trails
pub mod Totals
pub mod Rounds
pub mod Cases
