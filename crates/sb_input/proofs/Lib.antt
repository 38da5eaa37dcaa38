pub mod Limit
pub mod Leads
pub mod Parts
