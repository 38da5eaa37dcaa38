pub mod Order
mod Filling
mod Valid
pub mod Bytes
pub mod Phases
pub mod Switches
