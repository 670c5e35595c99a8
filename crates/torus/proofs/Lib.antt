pub mod Sums
pub mod Lists
pub mod Parts
pub mod Joined
pub mod Near
pub mod Magnitudes
pub mod Tests
