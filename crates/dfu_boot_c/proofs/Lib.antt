mod TrialSlots
mod WholeImages
mod DueOperations
