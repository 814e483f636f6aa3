pub mod Changes
pub mod WayLemmas
pub mod TakeLemmas
pub mod StepLemmas
pub mod BeginLemmas
