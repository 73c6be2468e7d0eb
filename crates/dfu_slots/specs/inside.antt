pub mod Carry
pub mod PlaceMemory
pub mod Series
pub mod Sim
