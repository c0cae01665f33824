pub mod Kinds
pub mod UpperCase
