pub mod Shelves
pub mod Texts
pub mod Judged
pub mod OneFile
pub mod OneNode
pub mod AllNodes
pub mod Whole
