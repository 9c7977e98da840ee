pub mod Powers
pub mod Rounding
pub mod Readings
pub mod Texts
pub mod ReadingBack
pub mod Zeros
