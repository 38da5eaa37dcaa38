pub mod SyscallRegisters
pub mod Refusals
pub mod Views
