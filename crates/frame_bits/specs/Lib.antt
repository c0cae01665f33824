pub mod Counting
pub mod Timing
pub mod Listing
pub mod Unstuffed
