pub mod Positions
pub mod Codes
pub mod Fetched
