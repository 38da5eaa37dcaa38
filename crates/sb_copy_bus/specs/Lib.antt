pub mod MadeWalk
