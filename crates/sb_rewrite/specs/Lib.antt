pub mod Listing
pub mod Target
pub mod Refusals
pub mod Placing
pub mod Slots
pub mod RewrittenText
pub mod Rewriting
pub mod Turns
