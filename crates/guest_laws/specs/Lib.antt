-- What the laws say.
pub mod Words
