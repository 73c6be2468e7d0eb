mod DfuseExact
mod DfuseKept
mod DfusePasses
mod DfuseSomewhere
mod DfuseVerdicts
mod FirstPlaces
mod Exact
mod Fields
pub mod ForCallers
pub mod RowTests
mod JoinedBits
mod Least
pub mod Places
mod Requests
pub mod HeldPlaces
mod Verdicts
mod Words
mod UntakenRows
