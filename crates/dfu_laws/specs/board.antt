pub mod Board
pub mod Happens
pub mod ImageSurvival
pub mod Accepts
pub mod Refines
pub mod Slots
pub mod Steps
pub mod Counts
