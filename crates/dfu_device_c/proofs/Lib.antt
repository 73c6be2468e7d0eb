mod CallRefusals
mod Split
mod HandedWrites
mod ModeChanges
mod RecordAnswers
mod Asked
mod Refusals
mod Powered
