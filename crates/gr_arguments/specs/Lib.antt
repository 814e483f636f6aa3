pub mod Asked
pub mod Commands
pub mod Naming
pub mod Pages
pub mod Plain
