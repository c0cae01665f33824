pub mod Keys
pub mod Folders
pub mod Ranges
