pub mod Ascii
pub mod Counts
pub mod Rates
