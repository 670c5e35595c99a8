pub mod Tree
pub mod LookedUp
