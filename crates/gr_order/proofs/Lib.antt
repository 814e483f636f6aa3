pub mod ForgetLemmas
pub mod DecidedLemmas
pub mod ReadyLemmas
pub mod StateLemmas
pub mod MeetLemmas
pub mod RestLemmas
pub mod PassLemmas
pub mod SumLemmas
pub mod TakenLemmas
pub mod HeldLemmas
pub mod WaitLemmas
pub mod ComingLemmas
pub mod AtOnceLemmas
mod Cutting
mod Acquiring
mod Diverging
