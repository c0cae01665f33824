pub mod Plays
pub mod Statuses
pub mod Attempts
pub mod Recovery
pub mod Cases
