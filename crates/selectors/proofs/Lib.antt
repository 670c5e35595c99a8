pub mod Added
pub mod Encrypted
pub mod Accepted
pub mod SelectorNoise
