pub mod Changes
pub mod SendLemmas
pub mod TakeLemmas
pub mod InFlightLemmas
pub mod RestLemmas
pub mod NewLemmas
pub mod ReceivedHits
