pub mod Components
pub mod Plans
pub mod Planning
pub mod Numbers
pub mod OneAfterAnother
