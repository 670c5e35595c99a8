pub mod Cleared
pub mod Accepted
pub mod CallNoise
