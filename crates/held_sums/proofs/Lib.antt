pub mod Rows
pub mod ColumnLaws
pub mod HeldLaws
