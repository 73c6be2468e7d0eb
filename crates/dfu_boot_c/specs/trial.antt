pub mod Tries
pub mod TrialRecords
pub mod Numbers
pub mod TrialCalls
pub mod Again
