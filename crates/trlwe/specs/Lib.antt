pub mod Classes
pub mod Sample
pub mod Calls
