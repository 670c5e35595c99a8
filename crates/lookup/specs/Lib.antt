pub mod Job
pub mod Calls
pub mod Inner
