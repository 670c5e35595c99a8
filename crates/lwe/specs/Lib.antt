pub mod Scalar
pub mod Calls
