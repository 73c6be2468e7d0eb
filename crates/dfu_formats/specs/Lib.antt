pub mod dfuse
pub mod images
pub mod inside
pub mod memory
