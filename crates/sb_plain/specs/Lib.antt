pub mod Start
pub mod RefusedCall
pub mod Scratch
