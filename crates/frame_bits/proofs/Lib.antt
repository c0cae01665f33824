pub mod Stuffing
pub mod NumberBits
pub mod TimeSums
pub mod Whole
pub mod StuffingLaws
