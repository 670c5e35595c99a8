pub mod Sum
pub mod Word
pub mod Bytes
