pub mod Signed
pub mod ExactSums
pub mod Words
