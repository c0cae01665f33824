pub mod Chains
pub mod Ties
pub mod Calls
pub mod Behind
