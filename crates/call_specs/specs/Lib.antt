-- The definitions of this crate.
pub mod CallWords
pub mod Called
pub mod CallLine
pub mod CallRows
