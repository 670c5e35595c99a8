pub mod Passed
pub mod Packings
