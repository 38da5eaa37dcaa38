pub mod Page
pub mod Forms
pub mod Home
pub mod Server
pub mod Landing
pub mod Record
