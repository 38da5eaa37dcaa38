pub mod Parts
pub mod Sizes
pub mod Known
pub mod OneAnswer
pub mod FirstState
