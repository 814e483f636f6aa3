pub mod FactLemmas
pub mod RunLemmas
