pub mod Pattern
pub mod Holding
