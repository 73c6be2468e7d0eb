pub mod Conformity
