pub mod Operation
pub mod Spelling
pub mod Reading
pub mod OperationValues
