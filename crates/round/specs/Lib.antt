pub mod Round
pub mod Inner
