pub mod Reading
pub mod LeadReader
pub mod FieldReaders
pub mod InsnReader
pub mod Decode
