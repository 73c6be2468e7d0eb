pub mod Changing
pub mod Names
pub mod Objects
pub mod Parts
pub mod Quoted
pub mod SuffixReasons
