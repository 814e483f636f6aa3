pub mod Answers
pub mod Known
pub mod Sources
pub mod Types
