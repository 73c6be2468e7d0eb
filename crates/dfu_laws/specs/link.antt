pub mod Calls
pub mod LinkSteps
pub mod Plays
pub mod Stays
pub mod Marks
pub mod Copies
pub mod Trials
