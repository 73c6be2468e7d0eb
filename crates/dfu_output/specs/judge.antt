pub mod Lines
pub mod Names
pub mod Texts
pub mod Dfuse
pub mod Course
pub mod Judging
pub mod inside
