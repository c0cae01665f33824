pub mod Bytes
pub mod Left
pub mod NextRow
pub mod Single
