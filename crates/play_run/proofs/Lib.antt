pub mod Logs
pub mod Nexts
pub mod Prefixing
pub mod Lasting
pub mod Submitting
pub mod Scripting
