pub mod Mapped
pub mod Accepted
pub mod Reporting
mod Sources
pub mod Faults
pub mod Judged
pub mod Seen
pub mod Comings
pub mod Behind
mod Backlogs
