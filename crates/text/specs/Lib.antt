pub mod Ascii
pub mod Decimal
pub mod Lines
pub mod Sizes
pub mod Laid
pub mod Cases
