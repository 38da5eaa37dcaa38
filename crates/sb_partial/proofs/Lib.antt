pub mod Blocks
pub mod OneFrame
pub mod Changed
pub mod Noting
