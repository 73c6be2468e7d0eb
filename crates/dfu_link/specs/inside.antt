pub mod Source
pub mod SetupView
pub mod SetupFaults
pub mod Expected
pub mod Moving
pub mod Forming
pub mod AcceptedImage
