pub mod Moments
pub mod Prefixes
pub mod Ready
pub mod Scripts
pub mod Statuses
pub mod Worlds
