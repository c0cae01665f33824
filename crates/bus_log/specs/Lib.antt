pub mod Verbs
pub mod Reading
pub mod Groups
pub mod Spelling
pub mod Content
pub mod LineValues
