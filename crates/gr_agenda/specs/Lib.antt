pub mod Lists
pub mod Kept
pub mod Reaches
pub mod Types
