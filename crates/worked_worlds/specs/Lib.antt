pub mod Tables
pub mod Crossing
pub mod OneCycle
pub mod Failing
pub mod Ordered
pub mod Emitted
pub mod Answering
