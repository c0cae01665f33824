-- The definitions of this crate.
pub mod Files
pub mod Grammars
pub mod Readings
pub mod Cuts
pub mod Wrong
pub mod Worked
