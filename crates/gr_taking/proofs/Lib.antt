mod EventLists
pub mod TakenLemmas
mod Turns
mod RoundLemmas
mod Lists
mod StepLemmas
