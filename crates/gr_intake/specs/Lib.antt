pub mod Joined
pub mod Laws
pub mod Launch
pub mod Sequencing
pub mod Intakes
pub mod Waiting
pub mod Types
