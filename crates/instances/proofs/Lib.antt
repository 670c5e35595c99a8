pub mod BlockInstance
pub mod Instance
pub mod PackedInstance
pub mod PackingInstances
pub mod HiddenInstances
pub mod ThinKey
pub mod WeightInstance
pub mod FileInstance
