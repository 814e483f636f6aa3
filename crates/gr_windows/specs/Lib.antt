pub mod Rows
pub mod Windows
