pub mod Places
pub mod HexText
