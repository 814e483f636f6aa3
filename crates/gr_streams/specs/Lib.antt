pub mod Headers
pub mod Records
pub mod Streams
pub mod Sending
pub mod Sources
pub mod Types
