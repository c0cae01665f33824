pub mod Units
pub mod World
pub mod Next
pub mod Sessions
pub mod Step
pub mod Network
pub mod Plan
pub mod Fits
