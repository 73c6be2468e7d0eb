mod Steps
mod Bits
mod ImageNotes
pub mod UnseenState
pub mod Room
mod SeriesBytes
mod StoreCallResults
mod Rows
pub mod Pieces
mod Empty
mod Locating
mod JobPieces
mod OpPieces
mod SequenceSteps
mod Cutting
pub mod Working
mod WritingRows
mod Sending
mod NotesAfterRow
mod Ended
pub mod Inside
mod RowErases
mod CallResults
pub mod Refuses
mod SpareRanges
mod PartialSeries
mod SpareGate
mod FormatParts
mod FormatInside
pub mod FormatGoing
mod FormatPieces
pub mod StallPlans
pub mod LongPlans
pub mod LongSetups
pub mod Verdicts
pub mod ClosePlans
pub mod Closing
pub mod DueTimes
mod ImagePlaces
mod Blanks
mod Running
mod BytesBeforeSector
