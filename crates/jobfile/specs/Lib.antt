pub mod Layout
pub mod File
pub mod Reader
pub mod Inner
pub mod Output
pub mod Streams
