pub mod board
pub mod link
pub mod in_c
pub mod ends
pub mod judge
