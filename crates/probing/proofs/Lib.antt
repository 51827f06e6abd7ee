pub mod Injection
pub mod Lent
pub mod Results
pub mod StateBytes
pub mod OutwardLabels
pub mod NamedLinks
pub mod Searching
pub mod Rounds
