pub mod Steps
pub mod Runs
pub mod Many
pub mod Served
pub mod Text
pub mod Registers
