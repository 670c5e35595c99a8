pub mod Parameters
pub mod Block
pub mod External
