pub mod Allowing
pub mod Asked
pub mod BytesBesideImage
mod Closing
pub mod Counting
mod Downloading
pub mod Erasing
pub mod OperationCounts
pub mod PieceBytes
pub mod Fitting
pub mod FreshPieces
pub mod RunAreas
mod Keeping
mod Lists
pub mod ComparedBytes
pub mod Members
pub mod NextDifference
mod Outcomes
pub mod Places
pub mod Programming
mod Slots
mod Starts
pub mod RemainingOperations
mod WorkingStarts
mod Unique
pub mod UnreadMarks
mod Uploading
pub mod WholeStarts
