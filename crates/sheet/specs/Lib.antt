pub mod Columns
pub mod Page
pub mod Form
pub mod Shown
pub mod Numbers
pub mod Cases
