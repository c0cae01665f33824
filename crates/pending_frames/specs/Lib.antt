-- The definitions of this crate, by what they are about.
pub mod Pending
pub mod Kept
