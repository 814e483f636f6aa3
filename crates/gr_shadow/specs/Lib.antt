pub mod Clashes
pub mod Keeps
pub mod Kept
pub mod StandsFor
pub mod Laws
pub mod Lent
pub mod Launches
