pub mod StartBits
pub mod TextMap
pub mod Marks
