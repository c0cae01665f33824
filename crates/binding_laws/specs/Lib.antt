-- What the laws say, beside the definitions themselves.
pub mod Words
