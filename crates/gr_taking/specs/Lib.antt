pub mod Along
pub mod Taken
pub mod Sources
