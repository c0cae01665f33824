mod Bytes
mod Replaced
