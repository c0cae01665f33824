pub mod Tokens
pub mod Codes
pub mod Found
pub mod States
pub mod Loop
pub mod Runs
pub mod Whole
pub mod Within
