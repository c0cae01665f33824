pub mod Ideal
