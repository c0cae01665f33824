pub mod Stores
pub mod Placed
pub mod Fresh
pub mod Accepted
