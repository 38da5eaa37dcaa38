pub mod SameReads
pub mod Again
pub mod Stores
