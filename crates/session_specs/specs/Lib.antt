-- The definitions of a session, by what they are about.
pub mod Outcome
pub mod Sequence
pub mod Replies
pub mod Session
pub mod Exchanges
pub mod Worked
pub mod WorkedIntervals
pub mod WrittenOut
