pub mod Inner
pub mod Found
