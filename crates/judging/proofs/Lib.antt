pub mod Lent
pub mod Searching
