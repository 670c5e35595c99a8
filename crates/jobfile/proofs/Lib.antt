pub mod Sections
pub mod Passed
pub mod Held
pub mod Lent
pub mod Texts
pub mod RoundTrip
pub mod Accuracy
