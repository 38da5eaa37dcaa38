pub mod StartBits
pub mod Numbers
pub mod Addresses
pub mod Keys
pub mod Nothing
pub mod Same
