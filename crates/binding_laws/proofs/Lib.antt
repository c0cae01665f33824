pub mod Follows
pub mod Sound
pub mod Kept
pub mod Steady
pub mod Counts
pub mod Bound
pub mod Firsts
