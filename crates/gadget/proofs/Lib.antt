pub mod Bounds
pub mod Rounding
pub mod Places
pub mod Laws
pub mod Lists
pub mod Decomposition
pub mod Shifts
