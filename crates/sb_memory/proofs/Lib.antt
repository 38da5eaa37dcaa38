pub mod Parts
pub mod Words
pub mod Changes
pub mod Accounts
pub mod Pages
pub mod Frames
