pub mod Size
pub mod Arithmetic
pub mod Shift
pub mod Outcome
