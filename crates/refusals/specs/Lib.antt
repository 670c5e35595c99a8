pub mod Arguments
pub mod Definitions
pub mod Faults
pub mod Rows
pub mod Table
