-- Runs over flat code.
pub mod Runs
