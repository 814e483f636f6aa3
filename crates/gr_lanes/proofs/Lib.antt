pub mod IndexLemmas
pub mod GroupLemmas
pub mod Growth
pub mod InstanceLemmas
pub mod LaneLemmas
pub mod KeptLemmas
