pub mod Ways
pub mod Hops
pub mod Rules
pub mod Probes
