pub mod DfuseStep
pub mod Stepped
