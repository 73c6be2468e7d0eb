pub mod Sizes
pub mod Words
pub mod RowRead
pub mod Rows
pub mod PartRead
pub mod Parts
pub mod Pieces
pub mod PlanText
