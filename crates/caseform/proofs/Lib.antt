pub mod Bytes
pub mod Filled
pub mod Texts
