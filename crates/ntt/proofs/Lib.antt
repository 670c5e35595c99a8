pub mod Split
pub mod NodeLaws
pub mod Levels
pub mod Plans
