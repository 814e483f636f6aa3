pub mod HitLemmas
pub mod OrderLemmas
pub mod SentLemmas
pub mod FinishLemmas
pub mod SetupLemmas
