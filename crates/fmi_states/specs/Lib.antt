-- The definitions of this crate, by what they are about.
pub mod Phase
pub mod Reply
pub mod Parts
pub mod Unit
pub mod InTurn
pub mod ListEcu
