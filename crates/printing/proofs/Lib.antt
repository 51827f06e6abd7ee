pub mod PageLaws
pub mod Printed
pub mod Front
