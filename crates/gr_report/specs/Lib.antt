pub mod FaultText
pub mod Putting
pub mod ReportText
pub mod Whole
