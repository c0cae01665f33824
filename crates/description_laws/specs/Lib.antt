pub mod Fit
pub mod Ranges
pub mod Order
pub mod Keys
