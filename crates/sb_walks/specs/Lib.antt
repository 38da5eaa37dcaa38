pub mod Entry
pub mod Reads
pub mod Gaps
pub mod Guest
pub mod Ept
pub mod Nested
