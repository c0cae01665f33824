-- The definitions of this crate.
pub mod Saved
pub mod Fit
pub mod Worked
