pub mod Feeds
pub mod Ends
