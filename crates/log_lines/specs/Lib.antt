pub mod Commas
pub mod IsLine
pub mod Lines
pub mod Parts
pub mod LineValues
