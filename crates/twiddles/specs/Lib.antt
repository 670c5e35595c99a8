pub mod Primes
pub mod Tables
