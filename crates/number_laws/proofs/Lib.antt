mod Signed
mod Divided
mod Turned
mod Counted
