pub mod Unstuffing
pub mod Checksum
pub mod Times
pub mod Refused
