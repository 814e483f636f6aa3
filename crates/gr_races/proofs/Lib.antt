pub mod KindLemmas
pub mod RelaxingLemmas
pub mod PartingLemmas
mod TakenLists
