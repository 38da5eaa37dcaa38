pub mod Fetched
pub mod Stays
pub mod Runs
