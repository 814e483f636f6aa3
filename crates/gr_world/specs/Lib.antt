pub mod Queues
pub mod Worlds
pub mod Steps
pub mod Putting
pub mod Laws
pub mod Types
