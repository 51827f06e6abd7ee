pub mod Nearest
pub mod Firsts
pub mod Several
