mod board
mod link
mod in_c
mod ends
mod judge
