pub mod IndexLemmas
pub mod Reading
pub mod OpeningLemmas
pub mod FileLemmas
pub mod NamingLemmas
mod CountLemmas
mod LawLemmas
mod NeighbourLemmas
