pub mod Names
pub mod Variables
pub mod Clocks
pub mod Binaries
pub mod Terminals
pub mod Descriptions
pub mod Worked
