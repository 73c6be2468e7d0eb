pub mod Regions
pub mod Things
pub mod Placement
pub mod Finding
pub mod Laws
pub mod Planning
