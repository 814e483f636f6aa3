pub mod BatchLemmas
pub mod PrefixLemmas
pub mod Sizes
pub mod Steps
pub mod IntakeSteps
pub mod Views
pub mod WorkSteps
