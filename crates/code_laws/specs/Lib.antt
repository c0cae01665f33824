-- What the laws say, beside the definitions themselves.
pub mod Codes
pub mod Answers
pub mod Fuel
pub mod Bare
pub mod Kept
