pub mod Standing
pub mod InMemory
pub mod Replays
pub mod Each
pub mod Laws
pub mod Types
