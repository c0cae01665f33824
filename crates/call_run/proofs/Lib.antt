pub mod Chosen
pub mod Reading
