pub mod KeepsLemmas
pub mod HitLemmas
pub mod ShadowLemmas
pub mod MapLemmas
pub mod LaunchLemmas
