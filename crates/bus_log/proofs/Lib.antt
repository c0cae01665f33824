pub mod Named
pub mod FourWords
pub mod Fields
pub mod Written
pub mod Spelled
pub mod Exact
pub mod Fitting
