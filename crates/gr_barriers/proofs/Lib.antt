pub mod GroupLemmas
pub mod InstanceLemmas
pub mod Listing
pub mod Lists
pub mod SummaryLemmas
