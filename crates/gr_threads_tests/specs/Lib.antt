pub mod Senders
pub mod Sent
