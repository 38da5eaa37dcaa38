pub mod Loop
pub mod Numbers
pub mod Exact
pub mod Parts
pub mod Whole
