pub mod PageName
pub mod PageLists
pub mod PageWords
pub mod Places
pub mod Store
