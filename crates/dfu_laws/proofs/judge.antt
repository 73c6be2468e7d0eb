pub mod Bits
pub mod Histories
pub mod LeadingAnswers
pub mod Passing
pub mod Rows
pub mod SeenAnswers
