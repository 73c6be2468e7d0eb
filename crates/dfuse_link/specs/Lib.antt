pub mod Chips
pub mod CleanRuns
pub mod Counts
pub mod Fronts
pub mod Histories
pub mod Promises
pub mod Reactions
pub mod Touched
