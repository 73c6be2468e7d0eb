pub mod Refusals
pub mod TakeCall
