pub mod Poly
pub mod Terms
pub mod Close
pub mod Rotation
pub mod Degrees
pub mod Coefficients
