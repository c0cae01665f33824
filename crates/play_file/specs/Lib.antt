pub mod Parts
pub mod Walk
pub mod Verbs
pub mod FileLines
pub mod Answers
