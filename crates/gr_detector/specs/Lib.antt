pub mod Runs
pub mod Refusals
pub mod Settling
