pub mod Joining
pub mod Pending
pub mod Packets
pub mod Usbpcap
