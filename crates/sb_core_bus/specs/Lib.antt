pub mod LiesAt
pub mod Account
