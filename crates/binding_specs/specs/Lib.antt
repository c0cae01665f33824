-- The definitions of this crate, by what they are about.
pub mod Exports
pub mod Guests
pub mod Pieces
pub mod Exchanges
pub mod Answers
pub mod Worked
