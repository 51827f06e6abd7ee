pub mod Firsts
pub mod Lows
pub mod Best
pub mod Aims
pub mod Several
