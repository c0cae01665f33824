pub mod Fields
pub mod Modules
