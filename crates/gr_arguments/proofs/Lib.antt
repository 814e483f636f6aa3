pub mod Asking
pub mod Meeting
pub mod OneAsked
pub mod Plain
