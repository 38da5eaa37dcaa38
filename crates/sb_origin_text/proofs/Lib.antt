pub mod Spelled
pub mod Slots
pub mod Placed
pub mod Texts
pub mod Made
pub mod Fetched
pub mod Coded
pub mod Codes
