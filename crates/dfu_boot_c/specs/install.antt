pub mod Calls
pub mod DueRecords
