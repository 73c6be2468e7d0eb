pub mod Marks
pub mod Trial
pub mod Calls
pub mod Laws
pub mod Lists
pub mod Again
pub mod Unread
