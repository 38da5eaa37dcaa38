pub mod Busy
pub mod Running
pub mod Runs
pub mod Origins
pub mod BlockRuns
pub mod Through
pub mod Holding
pub mod Made
