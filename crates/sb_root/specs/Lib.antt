pub mod Entry
pub mod Tables
pub mod Root
pub mod Standing
pub mod Answers
pub mod Calls
pub mod Switch
pub mod Laws
