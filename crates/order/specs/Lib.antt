pub mod Labels
pub mod Order
pub mod Span
