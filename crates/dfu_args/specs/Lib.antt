pub mod CommandLine
pub mod Complete
pub mod Refusals
pub mod Tables
pub mod Alone
