pub mod Flash
pub mod DueRecords
