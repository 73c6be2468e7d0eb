-- Definitions that only this crate's own functions use: meanings of the code's values, and the parts of an upload in memory.
pub mod View
pub mod Comparing
pub mod PartMemory
pub mod Memories
pub mod Refusing
