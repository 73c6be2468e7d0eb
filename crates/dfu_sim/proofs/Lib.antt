pub mod Choices
pub mod MovesWithoutBlocks
pub mod AnswerFacts
pub mod Kept
pub mod FateEffects
pub mod CommonFacts
pub mod GoCommon
pub mod Next
pub mod Blocks
pub mod GoDownload
pub mod Fetch
pub mod GoUpload
pub mod GoalLaws
pub mod GoCompare
pub mod HeardResults
pub mod ActionSteps
pub mod PassingTime
pub mod EachEvent
pub mod Passes
pub mod Finding
pub mod Verified
pub mod CleanCompare
pub mod DownloadTurns
pub mod Clean
pub mod MachineReports
pub mod Replies
pub mod Actions
pub mod Projected
pub mod ActionClauses
pub mod Events
pub mod Uploads
pub mod Counted
pub mod AgreeingMachines
pub mod EventFacts
pub mod Config
pub mod Chains
pub mod Offered
pub mod HeadlineKept
pub mod CleanRuns
pub mod CleanStops
pub mod DoneOnce
mod HarmedActions
pub mod Closing
pub mod RefusedImages
pub mod Refusals
mod Placing
mod Placed
mod Accepting
