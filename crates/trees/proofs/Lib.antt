pub mod Trees
pub mod Noise
pub mod BlindRotation
pub mod LookedUp
pub mod Largest
