pub mod Passed
pub mod Accepted
pub mod Charges
pub mod Runs
pub mod Public
pub mod Results
