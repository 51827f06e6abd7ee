pub mod Chained
pub mod Rings
pub mod Gathering
pub mod Spans
