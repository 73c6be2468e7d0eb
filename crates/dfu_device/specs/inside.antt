pub mod View
pub mod PendingAnswer
