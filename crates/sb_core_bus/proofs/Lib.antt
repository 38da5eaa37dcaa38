pub mod InPage
pub mod Numbers
pub mod Fetched
