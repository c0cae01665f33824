-- The definitions of this crate.
pub mod Texts
pub mod CodeTexts
pub mod ModuleTexts
pub mod FlatTexts
pub mod Shortest
pub mod Building
pub mod Worked
pub mod Sizes
