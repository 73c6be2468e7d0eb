pub mod Allowed
pub mod Area
pub mod Courses
pub mod Next
pub mod Operations
pub mod OperationReport
pub mod Working
