pub mod Taking
pub mod Carries
pub mod StartPages
pub mod StartTables
pub mod StartProcesses
pub mod StartThreads
pub mod Laws
