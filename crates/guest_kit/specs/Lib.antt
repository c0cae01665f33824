-- The definitions of this crate.
pub mod Described
pub mod Guests
pub mod Program
pub mod Templates
