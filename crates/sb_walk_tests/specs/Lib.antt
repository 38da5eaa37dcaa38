pub mod TestMemory
pub mod TestTables
pub mod TestSet
