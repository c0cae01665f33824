pub mod Line
pub mod LineValues
