pub mod Sets
pub mod Feeding
pub mod Consoles
