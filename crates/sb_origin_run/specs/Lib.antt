pub mod Machine
pub mod Position
pub mod Related
pub mod Registers
pub mod Many
pub mod Served
pub mod Text
pub mod Laws
