-- The definitions of this crate.
pub mod Faults
pub mod Flat
pub mod Runs
