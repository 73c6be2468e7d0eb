pub mod Bodies
pub mod Refused
pub mod Beginnings
pub mod Maps
pub mod DfuseSessions
