pub mod Reading
pub mod Found
pub mod Grammar
pub mod Images
pub mod Raw
