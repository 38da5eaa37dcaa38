pub mod Stop
pub mod Interface
pub mod Access
pub mod Bytes
