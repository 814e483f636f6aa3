pub mod Answers
pub mod Outcomes
pub mod Rendering
pub mod Shown
pub mod Statuses
pub mod Told
