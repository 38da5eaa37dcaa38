pub mod Numbers
pub mod Seen
pub mod Shared
pub mod Scratch
pub mod Plain
pub mod Bytes
pub mod Runs
pub mod Threads
