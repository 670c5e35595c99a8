pub mod SameLaws
pub mod FoldLaws
pub mod ShoupLaws
pub mod StoredLaws
pub mod Passes
