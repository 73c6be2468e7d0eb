pub mod Sessions
pub mod EndsSteps
pub mod Plays
pub mod Stays
