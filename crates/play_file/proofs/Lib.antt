pub mod Steps
pub mod Written
pub mod Files
pub mod Cuts
pub mod Walked
pub mod FileLaws
pub mod FileValues
