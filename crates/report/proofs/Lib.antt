pub mod Pieces
pub mod Decimal
pub mod Lines
