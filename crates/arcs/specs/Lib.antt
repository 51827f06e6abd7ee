pub mod Net
pub mod Chains
pub mod Table
pub mod Parts
pub mod Legs
pub mod Shows
pub mod Flags
