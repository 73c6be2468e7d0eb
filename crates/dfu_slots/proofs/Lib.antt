pub mod AfterBegin
pub mod AfterCall
pub mod AfterCommit
pub mod AfterPut
pub mod BeginMedium
pub mod Commit
mod Committed
mod Comparing
pub mod Counting
pub mod Headers
pub mod FilledBuffers
pub mod Formatted
pub mod Formatting
pub mod Kept
pub mod Newest
mod Opening
pub mod Parts
pub mod Pieces
mod ImagePieces
pub mod PutWrites
mod Refused
mod Registering
pub mod VisibleStores
pub mod Series
mod Simulated
mod SlotOpened
mod SpareData
pub mod Stands
pub mod UnchangedSlots
pub mod BytesOutsideWrite
mod Unique
pub mod Multiples
pub mod WritesWithinRanges
pub mod ReadBack
pub mod Written
mod Blank
pub mod Sectors
pub mod WritesWithErases
mod SuccessiveOperations
pub mod Ranges
pub mod Sequences
mod AllowedOperations
mod HeldRest
mod SpareOpening
pub mod ErasedTo
pub mod Edges
mod SizedOn
mod ErasesAhead
mod PutBytes
