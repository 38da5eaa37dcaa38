pub mod Determined
pub mod Lawful
pub mod LineTexts
pub mod Parts
pub mod Keeping
pub mod Stepping
