pub mod Arrived
pub mod Listings
pub mod Summaries
