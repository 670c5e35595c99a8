pub mod Tables
pub mod Told
pub mod Accuracy
pub mod EndToEnd
pub mod HiddenTables
pub mod AsHidden
pub mod Lighter
