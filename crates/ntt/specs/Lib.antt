pub mod Nodes
pub mod Transforms
