pub mod SelectionLemmas
pub mod HistoryLemmas
pub mod GroupLemmas
pub mod HeldLemmas
pub mod WaitLemmas
pub mod WalkLemmas
pub mod JudgedLemmas
pub mod WhyLemmas
