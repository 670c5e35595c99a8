pub mod Encrypted
pub mod Calls
pub mod Inner
