pub mod Places
pub mod Next
pub mod Laws
pub mod OperationReport
