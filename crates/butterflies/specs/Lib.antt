pub mod Same
pub mod Butterflies
