pub mod Outcomes
pub mod Shelves
pub mod Parts
