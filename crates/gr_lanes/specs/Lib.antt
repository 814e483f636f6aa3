pub mod Remembered
pub mod Takes
pub mod Indices
pub mod Instances
pub mod Kept
