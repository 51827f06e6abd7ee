pub mod Senders
pub mod Placed
