pub mod Need
pub mod Loading
pub mod RefusalText
pub mod Checks
pub mod FirstState
