pub mod ThreeNodes
