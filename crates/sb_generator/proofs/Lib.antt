pub mod TextInsns
pub mod Kept
pub mod Jumps
pub mod KeptTexts
pub mod Loadable
pub mod Drawn
pub mod GeneratedBundle
