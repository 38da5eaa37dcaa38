pub mod TableFrames
