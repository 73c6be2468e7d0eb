pub mod ReportNames
pub mod FileRecords
pub mod Ids
pub mod Looks
pub mod Refusals
pub mod Refusing
pub mod dfuse
pub mod Watch
