pub mod KeyOrder
pub mod Fields
