pub mod ClassNumbers
pub mod Laws
