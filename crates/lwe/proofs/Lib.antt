pub mod Extraction
pub mod Accepted
pub mod ExtractedClass
