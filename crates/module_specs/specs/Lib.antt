-- The definitions of this crate.
pub mod Opcodes
pub mod Spelling
pub mod CodeSpelling
pub mod ModuleSpelling
pub mod Spelled
pub mod Reading
pub mod CodeReading
pub mod ModuleReading
pub mod Faults
pub mod Fronts
pub mod Worked
