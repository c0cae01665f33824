-- Flat code, step by step.
pub mod Steps
pub mod Nesting
pub mod Answers
pub mod Modules
pub mod Rooms
