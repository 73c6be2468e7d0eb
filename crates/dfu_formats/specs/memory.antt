pub mod Grammar
pub mod Lookups
pub mod Ranges
pub mod Reading
