-- The definitions of this crate.
pub mod Values
pub mod Integers
pub mod Numerics
pub mod Stores
pub mod Signatures
pub mod Effects
pub mod Execution
pub mod Instances
pub mod Typing
pub mod Validity
