pub mod SeenCounts
pub mod KnownGrowth
pub mod EventSteps
pub mod GroupSteps
pub mod Teaching
pub mod AtOnceSteps
