mod ShownLaws
mod SuccessiveDescriptors
mod FieldLists
mod LogLists
mod LogPieces
mod LogSaying
mod LogSteps
