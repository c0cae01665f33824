mod Ascii
mod Bytes
mod Cloned
mod Documents
mod Spelled
mod Valid
