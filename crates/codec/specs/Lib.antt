pub mod Field
pub mod Part
pub mod Given
pub mod Layout
