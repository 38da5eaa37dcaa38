pub mod Noting
pub mod Agreeing
pub mod Held
pub mod Bytes
pub mod Calls
pub mod Rows
pub mod Alike
