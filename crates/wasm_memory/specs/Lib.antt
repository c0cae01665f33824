-- The definitions of this crate.
pub mod Pools
pub mod Words
