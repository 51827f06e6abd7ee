pub mod Plan
pub mod Connected
pub mod Trails
pub mod Totals
pub mod Unsound
pub mod Rounds
pub mod Places
