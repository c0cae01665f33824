pub mod Cuts
pub mod Decimals
pub mod Digits
pub mod Options
pub mod Separators
