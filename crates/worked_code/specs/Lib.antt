-- Worked values, by what they are of.
pub mod Operators32
pub mod Operators64
pub mod Sample
pub mod MemoryRows
pub mod CodeRows
pub mod CallRows
pub mod TypingRows
pub mod ModuleRows
