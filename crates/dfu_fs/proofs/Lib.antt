pub mod ChangeLaws
pub mod Ends
pub mod Fits
pub mod Texts
