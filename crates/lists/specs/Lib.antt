pub mod Tests
pub mod Members
pub mod Count
pub mod Numbers
pub mod Least
pub mod Padded
pub mod Arrays
pub mod Sum
