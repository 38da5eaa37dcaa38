pub mod Step
pub mod Facts
pub mod Run
pub mod Marked
pub mod Block
pub mod Answers
pub mod Places
pub use Rattle.sb_partial.specs.Copies
