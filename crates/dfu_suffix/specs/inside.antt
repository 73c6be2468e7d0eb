pub mod Reading
pub mod TailChecks
pub mod Making
pub mod Folding
