pub mod Actions
pub mod ResultNumbers
pub mod ReportsInC
pub mod EventsInC
pub mod Played
pub mod TrialPayloads
