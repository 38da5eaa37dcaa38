pub mod Commands
pub mod Numbers
pub mod Outputs
pub mod Taken
