pub mod RunText
pub mod Buffering
pub mod HexWords
pub mod Identifiers
pub mod NumberText
pub mod WordReasons
