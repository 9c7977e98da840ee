pub mod Classes
pub mod Squares
pub mod Frames
pub mod ExactMargins
pub mod WrittenFrames
pub mod WrittenMargins
pub mod Sharpness
pub mod Neighbours
