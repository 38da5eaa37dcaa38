pub mod Names
pub mod EqualNames
pub mod PageLists
pub mod Modes
pub mod Places
pub mod KnownPlaces
pub mod WordBytes
pub mod Numbers
